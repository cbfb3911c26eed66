mod MemberLemmas
mod SpellingLemmas
mod MessageLemmas
