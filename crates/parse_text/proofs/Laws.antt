pub mod ParseTextLaws
