-- How deep what is imported may lie.
use Rattle.std.specs.Prelude.{ℕ}

-- how many levels below the top a folder may lie
abbrev pub most_levels : ℕ
most_levels = 256
