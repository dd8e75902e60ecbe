use Rattle.std.proofs.Common.{Bool, cond, ◌++◌, string_bytes, refl, ap, ◌∙◌, arith, rules}
use Rattle.store.proofs.Found.{bytes-held}
use Rattle.store.proofs.Grow.{sound, put-pile, put-kept}
use Rattle.store.specs.Stores.{pile_of}
use Rattle.store.proofs.store.Store.put.Goals as goal

pub returns-then-text-len : goal.returns-then-text-len
returns-then-text-len c = (omega (arith, bytes-held c.args.self.now), refl)

pub invariant_of-self : goal.invariant_of-self
invariant_of-self c =
    let s = c.args.self.now in
    let t = c.push_str.ensures.succeeds (omega (arith, s.room.0)) in
    let e = c.push_str.ensures.bytes ∙ ap (λ (b : Bool). cond b (string_bytes s.bytes ++ c.args.text.now) (string_bytes s.bytes)) t in
    let k = put-kept _ _ _ _ _ (sound s) c.args.text.now _ e (search rules) in
    record { room = search rules; limits = search rules; opens = k.opens; spans = k.spans; lines = k.lines; cuts = k.cuts; joins = k.joins; ends = k.ends; sized = k.sized }

pub returns : goal.returns
unfolding pile_of
returns c =
    let s = c.args.self.now in
    let t = c.push_str.ensures.succeeds (omega (arith, s.room.0)) in
    let e = c.push_str.ensures.bytes ∙ ap (λ (b : Bool). cond b (string_bytes s.bytes ++ c.args.text.now) (string_bytes s.bytes)) t in
    (omega (arith, s.sized.0, s.bytes.bytes.ok.0), put-pile _ _ _ _ _ (sound s) c.args.text.now _ e)
