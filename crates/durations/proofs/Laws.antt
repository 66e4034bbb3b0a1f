pub mod DurationLaws
