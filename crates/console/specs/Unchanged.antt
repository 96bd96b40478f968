-- What is promised of every line: refused or not read, it changes nothing.
use Rattle.std.specs.Prelude.{ℕ, ◌≡◌, List}
use Rattle.steps.specs.Answers.{refused, accepted}
use Rattle.aberzhan.specs.declared.Module.{Module}
use Rattle.console.specs.declared.unread.Why.{Why}
use Rattle.console.specs.declared.turns.Said.TheVariants as said
use Rattle.console.specs.Session.{line_turn}

pub record ChangesNothing : Type 0 where
  pub unread : (m : Module) (line : List ℕ) (why : Why) → (line_turn m line).said ≡ accepted (said.Unread why) → (line_turn m line).after ≡ m
  pub refused : (m : Module) (line : List ℕ) (n : ℕ) → (line_turn m line).said ≡ refused n → (line_turn m line).after ≡ m
