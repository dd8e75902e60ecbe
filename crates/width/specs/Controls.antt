-- Control characters, by their code points.
use Rattle.std.specs.Prelude.{ℕ, Bool, ◌||◌}
use Rattle.std.specs.Int.{is_in_range}

abbrev pub is_control : ℕ → Bool
is_control c = is_in_range 0 0x1F c || is_in_range 0x7F 0x9F c
