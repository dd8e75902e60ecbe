use Rattle.std.proofs.Common.{◌≡◌, ℕ, ◌+◌, true, false, cond, length, Some, None, Option, sym, ap, ◌∙◌, subst, arith, length-append, rules}
use lib.Utf8.{encode}
use Rattle.std.proofs.lemmas.Str.{length-encode}
use Rattle.ansi.specs.declared.pieces.AnsiAwareChars.{AnsiAwareChars}
use Rattle.ansi.specs.declared.pieces.Piece.{Piece}
use Rattle.ansi.specs.declared.refusal.Refusal.{Refusal}
use Rattle.ansi.specs.declared.refusal.Refusal.TheVariants.{Control, NoColour}
use Rattle.ansi.specs.Pieces.{bytes}
use Rattle.ansi.specs.Reading.{part, remaining, unread, Takes}
use Rattle.pen.specs.Checks.{is_barred, offence, or_else, first_offence}
use Rattle.pen.specs.Sequences.{is_colour}
use Rattle.pen.proofs.check.check_pieces.Goals as goal

-- past a piece that is no offence
module _ (s t : AnsiAwareChars) (p : Piece) (at : ℕ) (takes : Takes s p t) where
  passes : (all : Option Refusal) → offence at (part p) ≡ None → first_offence at (remaining s) ≡ all → first_offence (at + length (bytes (part p))) (remaining t) ≡ all
  passes all none e = sym (ap (λ o. or_else o (first_offence (at + length (bytes (part p))) (remaining t))) none) ∙ sym (ap (first_offence at) takes.pieces) ∙ e

  moves : (n : ℕ) → at + length (unread s) ≡ n → at + length (bytes (part p)) + length (unread t) ≡ n
  moves n e = omega (arith, ap length takes.split, length-append (bytes (part p)) (unread t))

pub loop-piece-preserved-in-Escape : goal.loop-piece-preserved-in-Escape
loop-piece-preserved-in-Escape c =
    let s = c.loop-piece.piece-iterator in
    let t = c.next.new.self in
    let at = c.loop-piece.place in
    let takes = subst (λ q. Takes s q t) c.in-Escape.is c.in-Some.ensures.steps in
    let colour : is_colour c.in-Escape.text.now ≡ true = search rules in
    let fine = ap (λ b. cond b None (Some (NoColour at))) colour in
    (passes s t _ at takes _ fine c.loop-piece.invariant.0, moves s t _ at takes _ c.loop-piece.invariant.1)

pub loop-piece-preserved : goal.loop-piece-preserved
loop-piece-preserved c =
    let s = c.loop-piece.piece-iterator in
    let t = c.next.new.self in
    let at = c.loop-piece.place in
    let takes = subst (λ q. Takes s q t) c.in-Char.is c.in-Some.ensures.steps in
    let free : is_barred c.in-Char.c ≡ false = search rules in
    let fine = ap (λ b. cond b (Some (Control at)) None) free in
    let size : length (encode c.in-Char.c) ≡ c.len_utf8-place.result = length-encode _ ∙ sym c.len_utf8-place.ensures.value in (
      subst (λ n. first_offence (at + n) (remaining t) ≡ first_offence 0 (remaining c.into_iter-piece-iterator.result)) size (passes s t _ at takes _ fine c.loop-piece.invariant.0),
      subst (λ n. at + n + length (unread t) ≡ length (unread c.into_iter-piece-iterator.result)) size (moves s t _ at takes _ c.loop-piece.invariant.1),
    )
