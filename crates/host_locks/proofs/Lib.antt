mod WordLaws
mod TableLaws
mod FreeRows
