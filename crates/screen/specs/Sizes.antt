-- The sizes that a screen can have.
use Rattle.std.specs.Prelude.{◌≡◌, ℕ, ◌*◌, ◌<◌, ◌≤◌}
use Rattle.terminal.specs.declared.fault.Fault.{Fault}
use Rattle.terminal.specs.declared.fault.Fault.TheVariants.{Size}

-- n cells are a screen of this width and height
pub record Sized (width height n : ℕ) : Type 0 where
  pub wide : 0 < width
  pub high : 0 < height
  pub few : height ≤ 1024
  pub whole : n ≡ width * height

abbrev pub Unsized : ℕ → ℕ → ℕ → Fault → Type 0
Unsized width height n f = (f ≡ Size) × (Sized width height n → ⊥)
