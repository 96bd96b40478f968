-- Programs of calls: code that keeps a struct and has a method for each step. What a method's contract allows is left open (`Methods`).
use Rattle.std.specs.Prelude.{ℕ, suc, ◌≡◌, List, [], ◌∷◌, map}
use Rattle.std.proofs.Math.Option.{none, some}
use Rattle.steps.specs.Answers.{refused, accepted}
use Rattle.steps.specs.Port.{Port, PerPort, on, put_on, on_both}
use Rattle.steps.specs.Parts.{Parts}
use Rattle.steps.specs.Module.{Op, Step, at_port, block, reset, State, Report, silent, commits, tells, closes, resets, Outcome}
use Rattle.steps.specs.Run.{Run, run}
use Rattle.steps.specs.Shorter.{steps_of, shorter}

module _ (P : Parts) where
  -- ---- what a caller gets from one call

  -- the number that says no, the value of a hold or a read, or the word that it is done
  pub data Reply : Type 0 where
    refuses : ℕ → Reply
    done : Reply
    returns : P.Value → Reply

  abbrev pub reply_to : Report P → Reply
  reply_to silent = done
  reply_to (commits c) = done
  reply_to (tells p op v) = returns v
  reply_to (closes b c) = done
  reply_to (resets k) = done

  abbrev pub reply : Outcome P → Reply
  reply (refused n) = refuses n
  reply (accepted r) = reply_to r.0

  -- the state after the step; a refused one leaves it as it came
  abbrev pub after : Outcome P → State P → State P
  after (refused n) s = s
  after (accepted r) s = r.1

  -- ---- code

  pub record Methods : Type 1 where
    pub Kept : Type 0  -- the struct that the code keeps
    pub state_of : Kept → State P  -- the state that it stands for
    pub Call : Type 0  -- a call of a method, with its arguments
    pub step_of : Call → Step P  -- the step that it asks for
    pub call_of : Step P → Call  -- a call that asks for this step
    pub Allows : Call → Kept → Reply × Kept → Type 0  -- what the method's contract allows: a reply, and the struct after it

  -- ---- calls, one after the other, each with the struct that the one before returned

  -- what is noted of them; `Kept` is the struct
  pub record Log (Kept : Type 0) : Type 0 where
    pub refusals : ℕ  -- how many were refused
    pub heard : PerPort (List (Op P × P.Value))  -- each port's holds and reads with the values that they returned
    pub end : Kept

  module _ (Kept : Type 0) where
    abbrev pub none_called : Kept → Log Kept
    none_called m = record { refusals = 0; heard = on_both []; end = m }

    -- (only a hold or a read at a port returns a value: the last three cases do not occur)
    abbrev pub noted : Step P → Reply → Log Kept → Log Kept
    noted x (refuses n) l = record { refusals = suc l.refusals; heard = l.heard; end = l.end }
    noted x done l = l
    noted (at_port (some p) op) (returns v) l = record { refusals = l.refusals; heard = put_on p ((op, v) ∷ on l.heard p) l.heard; end = l.end }
    noted (at_port none op) (returns v) l = l
    noted (block b) (returns v) l = l
    noted (reset k) (returns v) l = l

  module _ (M : Methods) where
    open M use {Kept, state_of, Call, step_of, call_of, Allows}

    pub data Ran : List Call → Kept → Log Kept → Type 0 where
      ended : {m : Kept} → Ran [] m (none_called Kept m)
      called : {k : Call} {ks : List Call} {m : Kept} {o : Reply × Kept} {l : Log Kept} → Allows k m o → Ran ks o.1 l →
          Ran (k ∷ ks) m (noted Kept (step_of k) o.0 l)

    module _ (z : Kept) (ks : List Call) where
      -- the steps that the calls ask for, and what comes of them, with the list of all closed intervals
      abbrev pub asked : List (Step P)
      asked = map step_of ks

      abbrev pub run_of : Run P
      run_of = run P asked (state_of z)

      -- the calls of the shorter sequence
      abbrev pub shorter_calls : List Call
      shorter_calls = map call_of (steps_of P (shorter P (state_of z) asked))

      -- demand 3 of the calls ks from a fresh module z, with the log l
      pub record CallsDemand3 (l : Log Kept) : Type 0 where
        -- the calls do what the run does
        pub refusals : l.refusals ≡ run_of.refusals
        pub heard : l.heard ≡ run_of.heard
        pub end : state_of l.end ≡ run_of.end
        -- of the shorter sequence no call is refused, every hold and read returns the same, and the struct is left in the same state
        pub none_refused : (short : Log Kept) → Ran shorter_calls z short → short.refusals ≡ 0
        pub same_values : (short : Log Kept) → Ran shorter_calls z short → (p : Port) → on short.heard p ≡ on l.heard p
        pub same_state : (short : Log Kept) → Ran shorter_calls z short → state_of short.end ≡ state_of l.end
