use Rattle.std.proofs.Common.{◌≤◌, Bool, cond, rules}

-- The two tests alone, since those on the ranges are too many to split on.
pub narrow : (none two : Bool) → cond none 0 (cond two 2 1) ≤ 2
narrow none two = search rules
