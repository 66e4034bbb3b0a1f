pub mod DurationTextLaws
