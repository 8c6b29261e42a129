-- Histories: lists of calls with their answers, what can be read off them, and the law that they keep.
use Rattle.std.specs.Prelude.{◌≡◌, ℕ, zero, suc, ◌-◌, ◌<◌, ◌≤◌, Bool, true, false, not, ◌||◌, ◌⊎◌, List, [], ◌∷◌, ◌++◌, length, drop, Some, None, Option, ◌==◌, ◌≢◌, nat_le}
use Rattle.remora.specs.Shapes.{size}
use Rattle.remora.specs.Algebras.{Sample, Meaning, Formed, all_held, fails}
use Rattle.remora.specs.Formulas.{ArrayType, Line, Formula, Entry, TypedLine}
use Rattle.remora.specs.Typing.{InSet, TypesAll}
use Rattle.remora.specs.Forecasts.{entry_of, within_limits}
use Rattle.remora.specs.Evaluation.{Fault, Outcome, yields, faults}
use Rattle.remora.specs.Numbers.{pick, known, outcome}
use Rattle.remora.specs.Machine.{Activation}
use Rattle.remora.specs.Calls.{Draft, shut, opened, added, draft_formula, Run, absent, going, finished, broken, State, empty, entry_at, needs, Call, open', line, enter, scrap, withdraw, entry, begin, step', result, close, Answer, refused, number, ok, states, goes_on, is_done, fault, wrote, Reply, serve}

-- An event is a call with its answer; a history is a list of events, oldest first.
pub data Event : Type 0 where
  event : Call → Answer → Event

-- The calls of a history, from one state and store on, gave these answers and left that state and store.
abbrev pub Leads : Meaning → State → List Sample → List Event → State → List Sample → Type 0
Leads m s S [] t T = (s ≡ t) × (S ≡ T)
Leads m s S (event c a ∷ h) t T = (a ≡ (serve m s S c).answer) × Leads m (serve m s S c).state (serve m s S c).store h t T

-- A state and store were led to by a history: from a new collection and some first store.
abbrev pub Led : Meaning → List Event → State → List Sample → Type 0
Led m h s S = (first : List Sample) × Leads m empty first h s S

-- ---- what is read off a history

-- What a history tells: the open draft, the formulas behind the numbers as they were entered, newest first, and the withdrawn numbers.
pub record Reading : Type 0 where
  pub draft : Draft
  pub formulas : List Formula
  pub withdrawn : List ℕ

-- Nothing was told yet.
abbrev pub unread : Reading
unread = record { draft = shut; formulas = []; withdrawn = [] }

-- The reading with another draft.
abbrev pub drafted : Reading → Draft → Reading
drafted r d = record { draft = d; formulas = r.formulas; withdrawn = r.withdrawn }

-- What to read off an answer: by a refusal, by a number, by ok, and by any other.
abbrev pub by_answer : {Z : Type 0} → Answer → (ℕ → Option ℕ → Z) → (ℕ → Z) → Z → Z → Z
by_answer (refused n l) refusal numbered done other = refusal n l
by_answer (number k) refusal numbered done other = numbered k
by_answer ok refusal numbered done other = done
by_answer (states e w) refusal numbered done other = other
by_answer goes_on refusal numbered done other = other
by_answer is_done refusal numbered done other = other
by_answer (fault e g l c) refusal numbered done other = other
by_answer (wrote cs) refusal numbered done other = other

-- An accepted open gives a new draft.
abbrev pub read_open : Reading → List ArrayType → Answer → Reading
read_open r ps a = by_answer a (λ n l. r) (λ k. drafted r (opened k ps [])) r r

-- An accepted line is added to the draft.
abbrev pub read_line : Reading → Line → Answer → Reading
read_line r x a = by_answer a (λ n l. r) (λ k. drafted r (added r.draft x)) r r

-- A refused enter drops the draft, unless by 3, which names no line.
abbrev pub read_refused : Reading → ℕ → Option ℕ → Reading
read_refused r n None = pick (n == 3) r (drafted r shut)
read_refused r n (Some l) = drafted r shut

-- An accepted enter gives the draft the next number.
abbrev pub read_enter : Reading → Answer → Reading
read_enter r a = by_answer a (read_refused r) (λ k. record { draft = shut; formulas = draft_formula r.draft ∷ r.formulas; withdrawn = r.withdrawn }) r r

-- A call that is done leaves this, any other answer what was read before.
abbrev pub read_ok : Reading → Reading → Answer → Reading
read_ok r new a = by_answer a (λ n l. r) (λ k. r) new r

-- One event read.
abbrev pub read_call : Reading → Call → Answer → Reading
read_call r (open' ps) a = read_open r ps a
read_call r (line k x) a = read_line r x a
read_call r (enter k) a = read_enter r a
read_call r (scrap k) a = read_ok r (drafted r shut) a
read_call r (withdraw g) a = read_ok r (record { draft = r.draft; formulas = r.formulas; withdrawn = g ∷ r.withdrawn }) a
read_call r (entry g) a = r
read_call r (begin g cs) a = r
read_call r step' a = r
read_call r (result k) a = r
read_call r close a = r

-- Events read one after another.
abbrev pub read_from : Reading → List Event → Reading
read_from r [] = r
read_from r (event c a ∷ h) = read_from (read_call r c a) h

-- What a history tells.
abbrev pub reading : List Event → Reading
reading h = read_from unread h

-- A number is among these.
abbrev pub member : ℕ → List ℕ → Bool
member g [] = false
member g (x ∷ xs) = g == x || member g xs

-- ---- the law of a run: what may follow an accepted begin, up to its close

-- What an event is to a run: a step, a begin, a result with the buffer's length, or a close, with its answer; or a call that has nothing to do with runs.
pub data Turn : Type 0 where
  stepped : Answer → Turn
  begun : Answer → Turn
  read : (room : ℕ) → Answer → Turn
  closed : Answer → Turn
  elsewhere : Turn

-- What an event is to a run.
abbrev pub turn : Event → Turn
turn (event (open' ps) a) = elsewhere
turn (event (line k x) a) = elsewhere
turn (event (enter k) a) = elsewhere
turn (event (scrap k) a) = elsewhere
turn (event (withdraw g) a) = elsewhere
turn (event (entry g) a) = elsewhere
turn (event (begin g cs) a) = begun a
turn (event step' a) = stepped a
turn (event (result k) a) = read k a
turn (event close a) = closed a

-- What events are to a run.
abbrev pub turns : List Event → List Turn
turns [] = []
turns (e ∷ h) = turn e ∷ turns h

-- The run is at work: j steps answer more and the next answers last, then comes what after says; no step is refused before that, and nothing but close cuts the run short.
abbrev pub Goes : ℕ → Answer → (List Turn → Type 0) → List Turn → Type 0
Goes j last after [] = Unit {0}
Goes zero last after (stepped a ∷ h) = (a ≡ last) × after h
Goes (suc j) last after (stepped a ∷ h) = (a ≡ goes_on) × Goes j last after h
Goes j last after (begun a ∷ h) = (a ≡ refused 16 None) × Goes j last after h
Goes j last after (read k a ∷ h) = (a ≡ refused 20 None) × Goes j last after h
Goes j last after (closed a ∷ h) = a ≡ ok
Goes j last after (elsewhere ∷ h) = Goes j last after h

-- The run is done and yields these codes: result refuses by 21 alone, for a short buffer, and otherwise writes exactly them.
abbrev pub Yields : List ℕ → List Turn → Type 0
Yields ys [] = Unit {0}
Yields ys (stepped a ∷ h) = (a ≡ refused 19 None) × Yields ys h
Yields ys (begun a ∷ h) = (a ≡ refused 16 None) × Yields ys h
Yields ys (read k a ∷ h) = (a ≡ pick (nat_le (length ys) k) (wrote ys) (refused 21 None)) × Yields ys h
Yields ys (closed a ∷ h) = a ≡ ok
Yields ys (elsewhere ∷ h) = Yields ys h

-- The run is faulted: no step and no result is accepted any more.
abbrev pub Faulted : List Turn → Type 0
Faulted [] = Unit {0}
Faulted (stepped a ∷ h) = (a ≡ refused 19 None) × Faulted h
Faulted (begun a ∷ h) = (a ≡ refused 16 None) × Faulted h
Faulted (read k a ∷ h) = (a ≡ refused 20 None) × Faulted h
Faulted (closed a ∷ h) = a ≡ ok
Faulted (elsewhere ∷ h) = Faulted h

-- The algebra itself assigns the fault's cause to the operand codes that evaluation has at its cell, and the cause is not 0.
pub record Caused (m : Meaning) (x : Fault ℕ) : Type 0 where
  pub known_operator : x.operator < m.operators
  pub of_its_types : all_held m.holds (m.operator x.operator).operands x.operands ≡ true
  pub assigned : m.assign x.operator x.operands ≡ fails x.cause
  pub not_nought : 1 ≤ x.cause
  pub small : x.cause ≤ 255

-- A run of s steps whose formula evaluates to this: an array is yielded after exactly s steps, as many codes as the size of type t, all of its base type; a fault comes after fewer and is the algebra's own.
abbrev pub EndsAs : Meaning → ℕ → ArrayType → Outcome ℕ → List Turn → Type 0
EndsAs m s t (yields ys) h = Goes (s - 1) is_done (Yields ys) h × (length ys ≡ size t.shape) × InSet m.holds t.base ys
EndsAs m s t (faults x) h = (j : ℕ) × (j < s) × Goes j (fault x.cause x.formula x.line x.cell) Faulted h × Caused m x

-- What follows an accepted begin of formula g on these codes that answered s: s is the forecast, and the run ends as evaluation of the formula, as it was entered, says.
pub record RunHolds (m : Meaning) (fs : List Formula) (g : ℕ) (cs : List ℕ) (s : ℕ) (h : List Event) : Type 0 where
  pub entered : g < length fs
  pub forecast : s ≡ (known m fs g).steps
  pub some : 1 ≤ s
  pub ends : EndsAs m s (known m fs g).result (outcome m fs g cs) (turns h)

-- ---- how a run ended

-- A run ended with this many accepted steps by this answer, or not yet.
pub data End : Type 0 where
  not_ended : End
  ended : (steps : ℕ) → Answer → End

-- The end after one more step with this answer; refused steps do not count.
abbrev pub end_step : ℕ → Answer → End → End → End
end_step k (refused n l) same more = same
end_step k (number n) same more = same
end_step k ok same more = same
end_step k (states e w) same more = same
end_step k goes_on same more = more
end_step k is_done same more = ended (suc k) is_done
end_step k (fault e g l c) same more = ended (suc k) (fault e g l c)
end_step k (wrote cs) same more = same

-- How a run ended, with k steps accepted before.
abbrev pub end_of : ℕ → List Turn → End
end_of k [] = not_ended
end_of k (stepped a ∷ h) = end_step k a (end_of k h) (end_of (suc k) h)
end_of k (begun a ∷ h) = end_of k h
end_of k (read n a ∷ h) = end_of k h
end_of k (closed a ∷ h) = not_ended
end_of k (elsewhere ∷ h) = end_of k h

-- Some result of the run wrote these codes.
abbrev pub Wrote : List ℕ → List Turn → Type 0
Wrote ys [] = ⊥
Wrote ys (stepped a ∷ h) = Wrote ys h
Wrote ys (begun a ∷ h) = Wrote ys h
Wrote ys (read n a ∷ h) = (a ≡ wrote ys) ⊎ Wrote ys h
Wrote ys (closed a ∷ h) = ⊥
Wrote ys (elsewhere ∷ h) = Wrote ys h

-- Two runs end alike: if both ended, after equally many accepted steps by the same answer, and what they write is the same.
pub record EndAlike (h₁ h₂ : List Turn) : Type 0 where
  pub ends : (k₁ k₂ : ℕ) (a₁ a₂ : Answer) → end_of 0 h₁ ≡ ended k₁ a₁ → end_of 0 h₂ ≡ ended k₂ a₂ → (k₁ ≡ k₂) × (a₁ ≡ a₂)
  pub writes : (ys zs : List ℕ) → Wrote ys h₁ → Wrote zs h₂ → ys ≡ zs

-- ---- what is entered

-- These typed lines type the lines of a draft within the limits, calling no withdrawn formula, and fewer than 64 formulas are entered.
pub record Enterable (m : Meaning) (r : Reading) (ps : List ArrayType) (ls : List Line) (rs : List TypedLine) : Type 0 where
  pub space : length r.formulas < 64
  pub typed : TypesAll m (length r.formulas) (known m r.formulas) (λ g. not (member g r.withdrawn)) ps [] ls rs
  pub within : within_limits (entry_of (known m r.formulas) ps rs) ≡ true

-- A draft with lines is entered exactly when it is enterable, with the next number; what is known of that number is what its typed lines say.
pub record EnteredExactly (m : Meaning) (r : Reading) (ps : List ArrayType) (ls : List Line) (a : Answer) : Type 0 where
  pub only : (n : ℕ) → a ≡ number n
      → (n ≡ length r.formulas) × ((rs : List TypedLine) × Enterable m r ps ls rs
      × (known m (record { parameters = ps; lines = ls } ∷ r.formulas) n ≡ entry_of (known m r.formulas) ps rs))
  pub always : (rs : List TypedLine) → Enterable m r ps ls rs → a ≡ number (length r.formulas)

-- ---- the law

-- A history holds.
pub record Holds (m : Meaning) (h : List Event) : Type 0 where
  -- every run ends as evaluation says, at the step that was stated
  pub runs : (past future : List Event) (g : ℕ) (cs : List ℕ) (s : ℕ) → h ≡ past ++ event (begin g cs) (number s) ∷ future
      → RunHolds m (reading past).formulas g cs s future
  -- equal runs end equally
  pub alike : (past₁ future₁ past₂ future₂ : List Event) (g : ℕ) (cs : List ℕ) (s₁ s₂ : ℕ) → h ≡ past₁ ++ event (begin g cs) (number s₁) ∷ future₁
      → h ≡ past₂ ++ event (begin g cs) (number s₂) ∷ future₂ → EndAlike (turns future₁) (turns future₂)
  -- entry states what is known of the formula as it was entered, and its mark
  pub entries : (past future : List Event) (g : ℕ) (e : Entry) (w : Bool) → h ≡ past ++ event (entry g) (states e w) ∷ future
      → (g < length (reading past).formulas) × (e ≡ known m (reading past).formulas g) × (w ≡ member g (reading past).withdrawn)
  -- one number keeps one type and one forecast
  pub constant : (past₁ future₁ past₂ future₂ : List Event) (g : ℕ) (e₁ e₂ : Entry) (w₁ w₂ : Bool) → h ≡ past₁ ++ event (entry g) (states e₁ w₁) ∷ future₁
      → h ≡ past₂ ++ event (entry g) (states e₂ w₂) ∷ future₂ → e₁ ≡ e₂
  -- a draft with lines is entered exactly when it is typed, within the limits, and calls no withdrawn formula
  pub enters : (past future : List Event) (k : ℕ) (a : Answer) (ps : List ArrayType) (ls : List Line) → h ≡ past ++ event (enter k) a ∷ future
      → (reading past).draft ≡ opened k ps ls → (ls ≢ []) → EnteredExactly m (reading past) ps ls a

-- Every history holds that a state and store were led to by, for every algebra whose meaning is well formed.
abbrev pub EveryHistoryHolds : Type 0
EveryHistoryHolds = (m : Meaning) → Formed m → (h : List Event) (s : State) (S : List Sample) → Led m h s S → Holds m h

-- ---- bounds on the machine

-- The activations of a run.
abbrev pub activations : Run → List Activation
activations absent = []
activations (going g ts) = ts
activations (finished g q) = []
activations (broken g) = []

-- The front of the store that a run may write to: its formula's parameter atoms and room.
abbrev pub reach : State → Run → ℕ
reach s absent = 0
reach s (going g ts) = needs (entry_at s g)
reach s (finished g q) = needs (entry_at s g)
reach s (broken g) = needs (entry_at s g)

-- A reply leaves the store as it was behind the reach of the run.
pub record Untouched (S : List Sample) (r : Reply) : Type 0 where
  pub behind : drop (reach r.state r.state.run) r.store ≡ drop (reach r.state r.state.run) S
  pub long : length r.store ≡ length S

-- A run never has more than 16 activations, and no call writes outside parameter atoms and room.
abbrev pub EveryRunBounded : Type 0
EveryRunBounded = (m : Meaning) → Formed m → (h : List Event) (s : State) (S : List Sample) → Led m h s S
    → (length (activations s.run) ≤ 16) × ((c : Call) → Untouched S (serve m s S c))
