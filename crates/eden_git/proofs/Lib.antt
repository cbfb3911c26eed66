pub mod FramingLemmas
