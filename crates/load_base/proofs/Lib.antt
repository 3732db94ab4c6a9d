pub mod TupleRows
pub mod HotRows
pub mod TimesLaws
pub mod SoundLoads
