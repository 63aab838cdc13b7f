mod FirstLemmas
mod GrowLemmas
