-- Jobs that are served.
pub mod Served
pub mod Ended
pub mod KeptLaws
pub mod Filings
pub mod Serving
pub mod Turns
