-- FNV-1a, the hash of Fowler, Noll and Vo, at 64 bits.
use Rattle.std.specs.Prelude.{ℕ, ◌*◌, ◌%◌, ◌^◌, List, fold, bit_xor}

abbrev pub offset_basis : ℕ
offset_basis = 14695981039346656037

abbrev pub prime : ℕ
prime = 1099511628211

-- One octet: it is XORed into the hash, which is then multiplied by the prime.
abbrev pub stepped : ℕ → ℕ → ℕ
stepped hash octet = (bit_xor hash octet * prime) % 2 ^ 64

-- The octets one after another, from the offset basis on.
abbrev pub fnv1a : List ℕ → ℕ
fnv1a octets = fold stepped offset_basis octets
