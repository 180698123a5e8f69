pub mod KnownWorlds
