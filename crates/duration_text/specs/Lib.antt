pub mod DurationText
