pub mod FreshLemmas
pub mod SampleLemmas
