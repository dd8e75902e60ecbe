-- No call sends more bytes than it costs.
use Rattle.std.proofs.Common.{ℕ, ◌^◌, ◌<◌, ◌≤◌, Bool, true, false, eqb, [], length, decimal, arith, length-append}
use Rattle.std.proofs.lemmas.Fmt.{length-decimal-le}
use Rattle.std.proofs.lemmas.Bool.{cond_both}
use Rattle.pen.specs.Sequences.{csi}
use Rattle.terminal.specs.Calls.{Call, write, return, feed, clear_line, clear_until_new_line, hide, show, up, down, left, right, flush, cost}
use Rattle.stream.specs.Bytes.{flagged, moving, sent, Typed}
use Rattle.stream.proofs.Styles.{colour-brief}

flag-brief : (n : ℕ) (on : Bool) → n < 10 → length (flagged n on) ≤ 4
flag-brief n true h = let d = length-decimal-le 1 n (omega arith) (omega arith) (omega arith) in simp length-append (omega arith)
flag-brief n false h = omega arith

move-brief : (n last : ℕ) → n < 2 ^ 16 → length (moving n last) ≤ 8
move-brief n last h =
    let d = length-decimal-le 5 n (omega arith) (omega arith) (omega arith) in
    cond_both (eqb n 0) [] (csi (decimal n) last) (λ l. length l ≤ 8) (λ e. omega arith) (λ e. simp length-append (omega arith))

pub costs : (call : Call) → Typed call → length (sent call) ≤ cost call
costs (write u) h =
    let fore = colour-brief 30 u.style.fg (omega arith) h.0 in
    let back = colour-brief 40 u.style.bg (omega arith) h.1 in
    let bold = flag-brief 1 u.style.att.bold (omega arith) in
    let italic = flag-brief 3 u.style.att.italic (omega arith) in
    let end : length (decimal 0) ≤ 1 = length-decimal-le 1 0 (omega arith) (omega arith) (omega arith) in
    simp length-append (omega arith)
costs return h = omega arith
costs feed h = omega arith
costs clear_line h = omega arith
costs clear_until_new_line h = omega arith
costs hide h = omega arith
costs show h = omega arith
costs (up n) h = move-brief n 65 h
costs (down n) h = move-brief n 66 h
costs (left n) h = move-brief n 68 h
costs (right n) h = move-brief n 67 h
costs flush h = omega arith
