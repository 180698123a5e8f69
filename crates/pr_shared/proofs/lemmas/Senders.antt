pub mod EntryLists
