mod NameLaws
mod ScopeLaws
