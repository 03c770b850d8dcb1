pub mod Bars
pub mod Lanes
pub mod Marks
pub mod Markup
pub mod Ticks
