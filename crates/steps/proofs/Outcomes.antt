-- Small facts about outcomes: what is refused was not accepted.
use Prim.Native.Nat.{ℕ, suc}
use native.Mathlib.Nat.{suc-ne-zero}
use mathlib.Core.Path.{◌≡◌, refl, sym}
use Rattle.steps.specs.Answers.{refused, accepted}
use Rattle.steps.specs.Parts.{Parts}
use Rattle.steps.specs.Module.{Report, silent, commits, tells, closes, resets}
use Rattle.steps.specs.Run.{Run, with_report}

module _ (P : Parts) where
  -- an accepted step is no refusal
  pub report_refusals : (a : Report P) (r : Run P) → (with_report P a r).refusals ≡ r.refusals
  report_refusals silent r = refl
  report_refusals (commits c) r = refl
  report_refusals (tells p o v) r = refl
  report_refusals (closes b c) r = refl
  report_refusals (resets k) r = refl

-- a run of no refusal has not begun with one
pub never : {A : Type 0} {n : ℕ} → suc n ≡ 0 → A
never {n = n} h = absurd (suc-ne-zero n h)

-- two constructors that are said to be equal (`zero_one cc`)
pub zero_one {ℓ} : {A : Type ℓ} → ◌≡◌ {A = ℕ} 0 1 → A
zero_one e = absurd (suc-ne-zero 0 (sym e))

-- a refusal is no answer, and an answer is the answer
pub refused_never : {A B : Type 0} {n : ℕ} {a : A} → refused n ≡ accepted a → B
refused_never e = zero_one cc

pub accepted_is : {A : Type 0} {a b : A} → accepted a ≡ accepted b → a ≡ b
accepted_is e = cc
