pub mod FittingScripts
