use Rattle.std.proofs.Common.{◌≡◌, ◌++◌, vec_items}
use Rattle.std.specs.Slice.Iter.{chunks_exact_rest, chunks_exact_size}
use Rattle.hexadecimal.specs.Hex.{Bytes, digits_of}
use Rattle.hexadecimal.proofs.decode_digits.Given as goal

-- the bytes so far are what stands before the rest
abbrev pub invariant-loop-pair : goal.invariant-loop-pair
invariant-loop-pair l = Bytes (vec_items l.bytes) × (digits_of (vec_items l.bytes) ++ chunks_exact_rest l.pair-iterator ≡ l.digits) × (chunks_exact_size l.pair-iterator ≡ 2)
