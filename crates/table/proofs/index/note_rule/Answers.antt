-- `table::index::note_rule` meets its contract: the slots of a rule where nothing stands are filled. Assumes nothing.
use Rattle.std.proofs.Common.{ℕ, ◌+◌, ◌*◌, ◌≤◌, cond, ◌&&◌, eqb, leb, ltb, get_or, ◌≡◌, ◌∙◌, ap, ap₂, arith}
use Rattle.std.proofs.Common.{rules}
use Rattle.table.specs.Format.{Rule}
use Rattle.table.specs.Checked.{rule_meant}
use Rattle.table.specs.Indexing.{slots, noted_rule}
use Rattle.table.proofs.Indexing.{filled, slots_order}
use Rattle.table.proofs.index.note_rule.Goals as goal

pub returns : goal.returns
unfolding noted_rule
returns c =
    λ k.
    let r : Rule = rule_meant c.args.rule.now in
    let xs = c.args.words.now in
    let z : c.slots-from.result ≡ slots r = c.slots-from.ensures in
    let o : ((slots r).0 ≤ (slots r).1) × ((slots r).1 ≤ 130) = slots_order r c.requires.name in
    let z0 : c.slots-from.result.0 ≡ (slots r).0 = ap (λ (p : ℕ × ℕ). p.0) z in
    let z1 : c.slots-from.result.1 ≡ (slots r).1 = ap (λ (p : ℕ × ℕ). p.1) z in
    let f : c.from.result ≡ r.state = c.from.ensures in
    let a : 194 + c.from.result * 130 + c.slots-from.result.0 ≡ 194 + r.state * 130 + (slots r).0 = ap₂ (λ (s i : ℕ). 194 + s * 130 + i) f z0 in
    let e : 194 + c.from.result * 130 + c.slots-from.result.1 ≡ 194 + r.state * 130 + (slots r).1 = ap₂ (λ (s i : ℕ). 194 + s * 130 + i) f z1 in
    filled xs c.fill_free.new.words _ _ c.args.at (omega (arith, o.0)) (omega (arith, o.1, c.requires.state)) (search rules) c.fill_free.ensures k
    ∙ ap₂ (λ (i j : ℕ). cond (leb i k && (ltb k j && eqb (get_or xs k 0) 0)) c.args.at (get_or xs k 0)) a e
