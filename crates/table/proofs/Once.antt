-- No second answer fits the contract of `check`: `checked-once`. Assumes nothing.
use Rattle.std.proofs.Common.{ℕ, ◌≡◌, refl, sym, ap, ap₂, ◌∙◌, List, length, Result, Ok, Err, arith}
use Rattle.table.specs.Format.{read}
use Rattle.table.specs.Checked.{answer}
use Rattle.table.specs.Tally.{refusal_number}
use Rattle.table.specs.declared.parts.Parts.{Parts}
use Rattle.table.specs.declared.refusal.Refusal.{Refusal}
use Rattle.table.specs.declared.refusal.Refusal.TheVariants.{Form, Limit, Rule}
use Rattle.table.specs.declared.refusal.Refused.{Refused}

-- a refusal is told by its number
number-once : (r s : Refusal) → refusal_number r ≡ refusal_number s → r ≡ s
number-once Form Form e = refl
number-once Form Limit e = absurd (omega arith)
number-once Form Rule e = absurd (omega arith)
number-once Limit Form e = absurd (omega arith)
number-once Limit Limit e = refl
number-once Limit Rule e = absurd (omega arith)
number-once Rule Form e = absurd (omega arith)
number-once Rule Limit e = absurd (omega arith)
number-once Rule Rule e = refl

-- no refusal has the number 0
number-some : (r : Refusal) → refusal_number r ≡ 0 → ⊥
number-some Form e = omega arith
number-some Limit e = omega arith
number-some Rule e = omega arith

-- both accept, or both refuse the same at the same place
abbrev pub Same : Result Parts Refused → Result Parts Refused → Type 0
Same (Ok p) (Ok q) = Unit {0}
Same (Ok p) (Err s) = ⊥
Same (Err r) (Ok q) = ⊥
Same (Err r) (Err s) = r ≡ s

same-answer : (n : ℕ) (r s : Result Parts Refused) → answer n r ≡ answer n s → Same r s
same-answer n (Ok p) (Ok q) e = tt
same-answer n (Ok p) (Err s) e = number-some s.why (sym (ap (λ (x : ℕ × ℕ). x.0) e))
same-answer n (Err r) (Ok q) e = number-some r.why (ap (λ (x : ℕ × ℕ). x.0) e)
same-answer n (Err r) (Err s) e = ap₂ (λ (w : Refusal) (p : ℕ). record { why = w; at = p }) (number-once r.why s.why (ap (λ (x : ℕ × ℕ). x.0) e)) (ap (λ (x : ℕ × ℕ). x.1) e)

pub checked-once : (l : List ℕ) (r s : Result Parts Refused)
    → answer (length l) r ≡ ((read l).number, (read l).place)
    → answer (length l) s ≡ ((read l).number, (read l).place)
    → Same r s
checked-once l r s a b = same-answer (length l) r s (a ∙ sym b)
