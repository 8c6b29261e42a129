-- What every call promises, and the answers of the calls as the theory has them.
use Rattle.std.specs.Prelude.{◌≡◌, ℕ, true, List, [], ◌∷◌, ◌++◌, Ok, Err, Result}
use Rattle.remora.specs.Algebras.{Meaning, Sample}
use Rattle.remora.specs.Calls.{State, empty, Call, enter, Answer, number, ok, states, reply, serve, slip_fits}
use Rattle.remora.specs.Histories.{Event, event, Led, Holds}
use Rattle.lines.specs.declared.refusals.Refusal.{Refusal}
use Rattle.lines.specs.Refusals.{answer_of}
use Rattle.typing.specs.declared.found.Entry.{Entry}
use Rattle.typing.specs.Plans.{entry_of}
use Rattle.checker.specs.declared.drafts.Draft.{Draft}
use Rattle.checker.specs.declared.tables.Tables.{Tables}
use Rattle.checker.specs.Views.{draft_of}
use Rattle.checker.specs.Changes.{dropped}
use Rattle.checker.specs.Sound.{sound}
use Rattle.collection.specs.declared.slips.Slip.{Slip}
use Rattle.collection.specs.States.{state_with}

-- A collection that is new: it has the state of one, and with any store the empty history.
pub record Begins (m : Meaning) (s : State) : Type 0 where
  pub exact : s ≡ empty
  pub law : (S : List Sample) → Led m [] s S

-- A call that is lent no store: what it answers and leaves is exactly what the definition of the call says, with any store; and whatever history led here, it goes on by this call and its answer, and the law holds of it.
pub record Serves (m : Meaning) (before : State) (c : Call) (a : Answer) (after : State) : Type 0 where
  pub exact : (S : List Sample) → serve m before S c ≡ reply a after S
  pub law : (h : List Event) (S : List Sample) → Led m h before S → Led m (h ++ event c a ∷ []) after S × Holds m (h ++ event c a ∷ [])

-- ---- answers

-- A slip is answered as its serial.
abbrev pub slipped : Result Slip Refusal → Answer
slipped (Ok s) = number s.serial
slipped (Err e) = answer_of e

-- A number, of a line, a formula or of steps.
abbrev pub numbered : Result ℕ Refusal → Answer
numbered (Ok n) = number n
numbered (Err e) = answer_of e

-- That it is done.
abbrev pub finished : Result (Unit {0}) Refusal → Answer
finished (Ok u) = ok
finished (Err e) = answer_of e

-- What is known of a formula, as it was written to the lent record.
abbrev pub stated : Result (Unit {0}) Refusal → Entry → Answer
stated (Ok u) e = states (entry_of e) e.withdrawn
stated (Err x) e = answer_of x

-- A refusal leaves the lent record as it was.
abbrev pub Lent : Result (Unit {0}) Refusal → Entry → Entry → Type 0
Lent (Ok u) before after = Unit {0}
Lent (Err x) before after = after ≡ before

-- ---- enter, within

-- A draft that is entered, or refused from question 6 on: with any slip that fits it the call leaves exactly this once the draft is dropped.
pub record Entered (m : Meaning) (d : Draft) (t : Tables) (r : Result ℕ Refusal) (u : Draft) (v : Tables) : Type 0 where
  pub exact : (n k : ℕ) → slip_fits (draft_of d) k ≡ true → (S : List Sample) → serve m (state_with n d t) S (enter k) ≡ reply (numbered r) (state_with n (dropped u) v) S
  pub stays : sound (dropped u) v ≡ true
