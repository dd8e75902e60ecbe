-- A draft by its meaning.
use Rattle.std.specs.Prelude.{ℕ, cond, not, ◌||◌, List, [], ◌∷◌, ◌++◌}
use Rattle.style.specs.declared.style.StyleSheet.{StyleSheet}
use Rattle.style.specs.Styles.{is_plain}
use Rattle.layout.specs.Frames.{Frame, Rule}
use Rattle.layout.specs.Writing.{some, joined_runs, fed_piece}
use Rattle.store.specs.Piles.{Pile}
use Rattle.store.specs.Stores.{pile_of}
use Rattle.width.specs.declared.hash.RowHash.{Ghosts as RowHash}
use Rattle.width.specs.declared.rule.WidthRule.{Ghosts as WidthRule}
use Rattle.frame.specs.declared.draft.Draft.{Draft}

abbrev pub frame_at : Pile → StyleSheet → ℕ → ℕ → Frame
frame_at p s w h = record { rows = p.rows; runs = p.runs; text = p.text; style = s; width = w; hash = h }

abbrev pub frame_of : {R : Type 0} → Draft R → Frame
frame_of d = frame_at (pile_of d.store) d.style d.width d.hash

abbrev pub rule_at : ℕ → (ℕ → ℕ) → ℕ → (ℕ → ℕ → ℕ) → Rule
rule_at columns cells seed step = record { columns = columns; cells = cells; seed = seed; step = step }

-- the same, by the ghost members of a width rule and a row hash
abbrev pub rule_by : {C R : Type 0} → ℕ → WidthRule C → RowHash R → Rule
rule_by columns c r = rule_at columns c.cells r.seed r.step

-- what feeding and closing need of a rule
abbrev pub hashing : ℕ → (ℕ → ℕ → ℕ) → Rule
hashing seed step = rule_at 0 (λ c. 0) seed step

abbrev pub hashing_by : {R : Type 0} → RowHash R → Rule
hashing_by r = hashing r.seed r.step

-- the current run in the open row, if it joins
abbrev pub joined_frame : Frame → Frame
joined_frame f = record { rows = f.rows; runs = joined_runs f; text = cond (some f.text || not (is_plain f.style)) [] f.text; style = f.style; width = f.width; hash = f.hash }

-- the open row's runs as a finished row
abbrev pub added_frame : Frame → Frame
added_frame f = record { rows = f.rows ++ (record { runs = f.runs; width = f.width; hash = f.hash } ∷ []); runs = []; text = f.text; style = f.style; width = f.width; hash = f.hash }

-- bytes join the current run, and are fed to the open row, which becomes so wide
abbrev pub carried_to : Rule → List ℕ → ℕ → Frame → Frame
carried_to k bs w f = record { rows = f.rows; runs = f.runs; text = f.text ++ bs; style = f.style; width = w; hash = fed_piece k f.style f.hash bs }
