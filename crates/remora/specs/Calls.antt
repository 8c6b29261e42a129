-- The ten calls: for each its questions in order, its answer, and the state and the store afterwards.
use Rattle.std.specs.Prelude.{ℕ, ◌+◌, Bool, true, false, not, ◌&&◌, List, [], ◌∷◌, ◌++◌, map, length, get_or, take, drop, Some, None, Option, ◌==◌, nat_le, nat_lt, slice_index_or, slice_set}
use Rattle.remora.specs.Shapes.{size, allowed}
use Rattle.remora.specs.Algebras.{Sample, sample_of, codes_of, Meaning}
use Rattle.remora.specs.Formulas.{ArrayType, Line, Formula, Kind, a_literal, a_parameter, a_frame, an_operator, a_call, a_fold, an_append, a_reverse, no_kind, kind_of, Entry, TypedLine}
use Rattle.remora.specs.Questions.{Question, in_set, Verdict, all_typed, refused_at, judge}
use Rattle.remora.specs.Forecasts.{entry_of, within_limits}
use Rattle.remora.specs.Numbers.{no_entry}
use Rattle.remora.specs.Machine.{Plan, plans, part, put, Activation, activation, at, Progress, more, done, faulted, idle, choose, step}

-- ---- the state of a collection

-- The draft: none is open, or one with its serial, its parameters' types and its lines so far.
pub data Draft : Type 0 where
  shut : Draft
  opened : (serial : ℕ) (parameters : List ArrayType) (lines : List Line) → Draft

-- A formula as the collection keeps it: as it was entered, what is known of it, its plan, and whether it is withdrawn.
pub record Kept : Type 0 where
  pub formula : Formula
  pub entry : Entry
  pub plan : List Plan
  pub withdrawn : Bool

-- The run: none, one of a formula at work, done with the place of its result, or faulted.
pub data Run : Type 0 where
  absent : Run
  going : (number : ℕ) → List Activation → Run
  finished : (number place : ℕ) → Run
  broken : (number : ℕ) → Run

-- A collection: the number of drafts opened, the draft, the formulas by number, and the run.
pub record State : Type 0 where
  pub serials : ℕ
  pub draft : Draft
  pub formulas : List Kept
  pub run : Run

-- A new collection.
abbrev pub empty : State
empty = record { serials = 0; draft = shut; formulas = []; run = absent }

-- What a read past the end of the formulas stands for.
abbrev pub no_formula : Kept
no_formula = record { formula = record { parameters = []; lines = [] }; entry = no_entry; plan = []; withdrawn = false }

-- What is known of formula g.
abbrev pub entry_at : State → ℕ → Entry
entry_at s g = (get_or s.formulas g no_formula).entry

-- The plan of formula g.
abbrev pub plan_at : State → ℕ → List Plan
plan_at s g = (get_or s.formulas g no_formula).plan

-- Formula g is entered and not withdrawn, if it was given.
abbrev pub usable_at : State → ℕ → Bool
usable_at s g = not (get_or s.formulas g no_formula).withdrawn

-- The state with another draft.
abbrev pub with_draft : State → Draft → State
with_draft s d = record { serials = s.serials; draft = d; formulas = s.formulas; run = s.run }

-- The state with another run.
abbrev pub with_run : State → Run → State
with_run s r = record { serials = s.serials; draft = s.draft; formulas = s.formulas; run = r }

-- ---- calls and answers

-- The calls with their arguments: a slip is shown as its serial, a buffer as its length.
pub data Call : Type 0 where
  open' : List ArrayType → Call
  line : (serial : ℕ) → Line → Call
  enter : (serial : ℕ) → Call
  scrap : (serial : ℕ) → Call
  withdraw : (number : ℕ) → Call
  entry : (number : ℕ) → Call
  begin : (number : ℕ) → List ℕ → Call
  step' : Call
  result : (room : ℕ) → Call
  close : Call

-- The answers: a refusal with its number and, for 7 to 13, its line; a number (of a slip, a line, a formula, or of steps); that it is done; what is known of a formula and whether it is withdrawn; a step's answers; the codes that were written.
pub data Answer : Type 0 where
  refused : (number : ℕ) (line : Option ℕ) → Answer
  number : ℕ → Answer
  ok : Answer
  states : Entry → (withdrawn : Bool) → Answer
  goes_on : Answer
  is_done : Answer
  fault : (cause formula line cell : ℕ) → Answer
  wrote : List ℕ → Answer

-- What a call leaves: its answer, the state and the store.
pub record Reply : Type 0 where
  pub answer : Answer
  pub state : State
  pub store : List Sample

-- The reply with this answer, state and store.
abbrev pub reply : Answer → State → List Sample → Reply
reply a s S = record { answer = a; state = s; store = S }

-- A buffer after result: the codes stand at its front, the rest is as it was. No other answer writes to it.
abbrev pub buffered : Answer → List ℕ → List ℕ
buffered (refused n l) b = b
buffered (number n) b = b
buffered ok b = b
buffered (states e w) b = b
buffered goes_on b = b
buffered is_done b = b
buffered (fault e g l c) b = b
buffered (wrote cs) b = cs ++ drop (length cs) b

-- Questions in their order: all yes, or what the number of the first no gives.
abbrev pub asked : {Z : Type 0} → List Question → Z → (ℕ → Z) → Z
asked [] accept refuse = accept
asked (q ∷ qs) accept refuse = choose q.1 (asked qs accept refuse) (refuse q.0)

-- A refusal that leaves everything as it was.
abbrev pub refusal : State → List Sample → ℕ → Reply
refusal s S n = reply (refused n None) s S

-- ---- open

-- Each type has a known base and an allowed shape.
abbrev pub known_types : Meaning → List ArrayType → Bool
known_types m [] = true
known_types m (t ∷ ts) = (nat_lt t.base m.bases && allowed t.shape) && known_types m ts

-- The questions of open.
abbrev pub open_questions : Meaning → State → List ArrayType → List Question
open_questions m s ps = (1, nat_lt s.serials 1000000) ∷ (2, nat_le (length ps) 4 && known_types m ps) ∷ []

-- Open: a new draft with the next serial takes the place of any earlier one.
abbrev pub opens_draft : State → List Sample → List ArrayType → Reply
opens_draft s S ps = reply (number s.serials) (record { serials = s.serials + 1; draft = opened s.serials ps []; formulas = s.formulas; run = s.run }) S

-- ---- line

-- The slip has the serial of the open draft.
abbrev pub slip_fits : Draft → ℕ → Bool
slip_fits shut k = false
slip_fits (opened s ps ls) k = k == s

-- The parameters' types of the open draft.
abbrev pub draft_parameters : Draft → List ArrayType
draft_parameters shut = []
draft_parameters (opened s ps ls) = ps

-- The lines of the open draft.
abbrev pub draft_lines : Draft → List Line
draft_lines shut = []
draft_lines (opened s ps ls) = ls

-- The codes in lines.
abbrev pub codes_in : List Line → ℕ
codes_in [] = 0
codes_in (l ∷ ls) = length l.codes + codes_in ls

-- The lines in all formulas.
abbrev pub lines_kept : List Kept → ℕ
lines_kept [] = 0
lines_kept (f ∷ fs) = length f.formula.lines + lines_kept fs

-- The codes in all formulas.
abbrev pub codes_kept : List Kept → ℕ
codes_kept [] = 0
codes_kept (f ∷ fs) = codes_in f.formula.lines + codes_kept fs

-- With this line the draft has at most 64 lines, and draft and formulas together have at most 1,024 lines and 4,096 codes.
abbrev pub has_space : State → Line → Bool
has_space s l =
    nat_le (length (draft_lines s.draft) + 1) 64
    && (nat_le (lines_kept s.formulas + length (draft_lines s.draft) + 1) 1024 && nat_le (codes_kept s.formulas + codes_in (draft_lines s.draft) + length l.codes) 4096)

-- A list is empty.
abbrev pub none : {X : Type 0} → List X → Bool
none [] = true
none (x ∷ xs) = false

-- The fields that a line of this kind does not name are 0 or empty.
abbrev pub unnamed_empty : Kind → Line → Bool
unnamed_empty a_literal l = l.function == 0 && none l.operands
unnamed_empty a_parameter l = l.base == 0 && (none l.shape && (none l.operands && none l.codes))
unnamed_empty a_frame l = none l.codes
unnamed_empty an_operator l = l.base == 0 && (none l.shape && none l.codes)
unnamed_empty a_call l = l.base == 0 && (none l.shape && none l.codes)
unnamed_empty a_fold l = l.base == 0 && none l.codes
unnamed_empty an_append l = l.base == 0 && (l.function == 0 && none l.codes)
unnamed_empty a_reverse l = l.base == 0 && (l.function == 0 && none l.codes)
unnamed_empty no_kind l = false

-- The fields of a line are in order: there is such a kind and such a base type, the shape may be, there are no more than four operands, and what the kind does not use is left empty.
abbrev pub in_order : Meaning → Line → Bool
in_order m l = nat_lt l.base m.bases && (allowed l.shape && (nat_le (length l.operands) 4 && unnamed_empty (kind_of l.kind) l))

-- The draft with one more line.
abbrev pub added : Draft → Line → Draft
added shut l = shut
added (opened s ps ls) l = opened s ps (ls ++ l ∷ [])

-- The questions of line.
abbrev pub line_questions : Meaning → State → ℕ → Line → List Question
line_questions m s k l = (3, slip_fits s.draft k) ∷ (4, has_space s l) ∷ (5, in_order m l) ∷ []

-- Line: the line is added to the draft, and its number answered.
abbrev pub adds_line : State → List Sample → Line → Reply
adds_line s S l = reply (number (length (draft_lines s.draft))) (with_draft s (added s.draft l)) S

-- ---- enter and scrap

-- A formula as the collection keeps it, with these typed lines.
abbrev pub kept_as : Meaning → (ℕ → Entry) → Formula → List TypedLine → Kept
kept_as m E f rs = record { formula = f; entry = entry_of E f.parameters rs; plan = plans m E [] 0 rs; withdrawn = false }

-- The state with one more formula and no draft.
abbrev pub with_formula : State → Kept → State
with_formula s f = record { serials = s.serials; draft = shut; formulas = s.formulas ++ f ∷ []; run = s.run }

-- Enter once the lines are judged: the next number, or a refusal that drops the draft.
abbrev pub serve_verdict : Meaning → State → List Sample → Formula → Verdict → Reply
serve_verdict m s S f (all_typed rs) =
    choose (within_limits (entry_of (entry_at s) f.parameters rs))
    (reply (number (length s.formulas)) (with_formula s (kept_as m (entry_at s) f rs)) S)
    (reply (refused 14 None) (with_draft s shut) S)
serve_verdict m s S f (refused_at q k) = reply (refused q (Some k)) (with_draft s shut) S

-- The formula of a draft.
abbrev pub draft_formula : Draft → Formula
draft_formula d = record { parameters = draft_parameters d; lines = draft_lines d }

-- Enter: the draft becomes the formula with the next number.
abbrev pub serve_enter : Meaning → State → List Sample → ℕ → Reply
serve_enter m s S k =
    choose (slip_fits s.draft k)
    (choose (not (none (draft_lines s.draft)) && nat_lt (length s.formulas) 64)
    (serve_verdict m s S (draft_formula s.draft)
    (judge m (length s.formulas) (entry_at s) (usable_at s) (draft_parameters s.draft) [] (draft_lines s.draft)))
    (reply (refused 6 None) (with_draft s shut) S))
    (refusal s S 3)

-- The question of scrap.
abbrev pub scrap_questions : State → ℕ → List Question
scrap_questions s k = (3, slip_fits s.draft k) ∷ []

-- Scrap: the draft is dropped.
abbrev pub drops_draft : State → List Sample → Reply
drops_draft s S = reply ok (with_draft s shut) S

-- ---- withdraw and entry

-- A formula with the mark of withdrawal.
abbrev pub marked : Kept → Kept
marked f = record { formula = f.formula; entry = f.entry; plan = f.plan; withdrawn = true }

-- The number is entered and not withdrawn.
abbrev pub in_use : State → ℕ → Bool
in_use s g = nat_lt g (length s.formulas) && usable_at s g

-- The question of withdraw.
abbrev pub withdraw_questions : State → ℕ → List Question
withdraw_questions s g = (15, in_use s g) ∷ []

-- Withdraw: the number is marked.
abbrev pub marks_formula : State → List Sample → ℕ → Reply
marks_formula s S g = reply ok (record { serials = s.serials; draft = s.draft; formulas = slice_set s.formulas g (marked (slice_index_or s.formulas g no_formula)); run = s.run }) S

-- The question of entry.
abbrev pub entry_questions : State → ℕ → List Question
entry_questions s g = (23, nat_lt g (length s.formulas)) ∷ []

-- Entry: what is known of the number, and its mark.
abbrev pub tells_entry : State → List Sample → ℕ → Reply
tells_entry s S g = reply (states (entry_at s g) (get_or s.formulas g no_formula).withdrawn) s S

-- ---- begin, step, result and close

-- The atoms of parameters.
abbrev pub parameter_atoms : List ArrayType → ℕ
parameter_atoms [] = 0
parameter_atoms (t ∷ ts) = size t.shape + parameter_atoms ts

-- The codes of each parameter are of its base type.
abbrev pub codes_fit : (ℕ → ℕ → Bool) → List ArrayType → List ℕ → Bool
codes_fit holds [] cs = true
codes_fit holds (t ∷ ts) cs = in_set holds t.base (take (size t.shape) cs) && codes_fit holds ts (drop (size t.shape) cs)

-- The samples of the parameters' codes.
abbrev pub samples_for : List ArrayType → List ℕ → List Sample
samples_for [] cs = []
samples_for (t ∷ ts) cs = map (sample_of t.base) (take (size t.shape) cs) ++ samples_for ts (drop (size t.shape) cs)

-- The places of parameters that lie one behind the other from place q on.
abbrev pub parameter_places : ℕ → List ArrayType → List ℕ
parameter_places q [] = []
parameter_places q (t ∷ ts) = q ∷ parameter_places (q + size t.shape) ts

-- The atoms of the store that a run of a formula needs: its parameters' and its room.
abbrev pub needs : Entry → ℕ
needs e = parameter_atoms e.parameters + e.room

-- The first activation of formula g.
abbrev pub first_activation : Entry → ℕ → Activation
first_activation e g = activation g (parameter_atoms e.parameters) (parameter_places 0 e.parameters) 0 0

-- No run is open.
abbrev pub no_run : Run → Bool
no_run absent = true
no_run (going n ts) = false
no_run (finished n q) = false
no_run (broken n) = false

-- The store is long enough for a run of formula g.
abbrev pub store_fits : State → List Sample → ℕ → Bool
store_fits s S g = nat_le (needs (entry_at s g)) (length S)

-- The questions of begin.
abbrev pub begin_questions : Meaning → State → List Sample → ℕ → List ℕ → List Question
begin_questions m s S g cs =
    (16, no_run s.run)
    ∷ (15, in_use s g)
    ∷ (17, (length cs == parameter_atoms (entry_at s g).parameters) && codes_fit m.holds (entry_at s g).parameters cs)
    ∷ (18, store_fits s S g)
    ∷ []

-- Begin: the parameters' samples are put at the front of the store, and the first activation begins.
abbrev pub begins_run : State → List Sample → ℕ → List ℕ → Reply
begins_run s S g cs =
    reply (number (entry_at s g).steps) (with_run s (going g (first_activation (entry_at s g) g ∷ []))) (put S 0 (samples_for (entry_at s g).parameters cs))

-- The reply to a step that came to this, in a run of formula g.
abbrev pub progressed : State → List Sample → ℕ → Progress → Reply
progressed s S g (more (at T ts)) = reply goes_on (with_run s (going g ts)) T
progressed s S g (done T q) = reply is_done (with_run s (finished g q)) T
progressed s S g (faulted (at T ts) x) = reply (fault x.cause x.formula x.line x.cell) (with_run s (broken g)) T
progressed s S g idle = refusal s S 19

-- Step: one step of the run.
abbrev pub serve_step : Meaning → State → List Sample → Run → Reply
serve_step m s S absent = refusal s S 19
serve_step m s S (going g ts) = asked ((18, store_fits s S g) ∷ []) (progressed s S g (step m (plan_at s) (at S ts))) (refusal s S)
serve_step m s S (finished g q) = refusal s S 19
serve_step m s S (broken g) = refusal s S 19

-- The questions of result once a run of formula g is done.
abbrev pub result_questions : State → List Sample → ℕ → ℕ → List Question
result_questions s S g room = (18, store_fits s S g) ∷ (21, nat_le (size (entry_at s g).result.shape) room) ∷ []

-- Result: the codes of the result, which lies at place q.
abbrev pub writes_result : State → List Sample → ℕ → ℕ → Reply
writes_result s S g q = reply (wrote (codes_of (part S q (size (entry_at s g).result.shape)))) s S

-- Result: only of a run that is done.
abbrev pub serve_result : State → List Sample → ℕ → Run → Reply
serve_result s S room absent = refusal s S 20
serve_result s S room (going g ts) = refusal s S 20
serve_result s S room (finished g q) = asked (result_questions s S g room) (writes_result s S g q) (refusal s S)
serve_result s S room (broken g) = refusal s S 20

-- The question of close.
abbrev pub close_questions : State → List Question
close_questions s = (22, not (no_run s.run)) ∷ []

-- Close: the run ends in any state.
abbrev pub ends_run : State → List Sample → Reply
ends_run s S = reply ok (with_run s absent) S

-- ---- every call

-- What a call leaves of this state and this store.
abbrev pub serve : Meaning → State → List Sample → Call → Reply
serve m s S (open' ps) = asked (open_questions m s ps) (opens_draft s S ps) (refusal s S)
serve m s S (line k l) = asked (line_questions m s k l) (adds_line s S l) (refusal s S)
serve m s S (enter k) = serve_enter m s S k
serve m s S (scrap k) = asked (scrap_questions s k) (drops_draft s S) (refusal s S)
serve m s S (withdraw g) = asked (withdraw_questions s g) (marks_formula s S g) (refusal s S)
serve m s S (entry g) = asked (entry_questions s g) (tells_entry s S g) (refusal s S)
serve m s S (begin g cs) = asked (begin_questions m s S g cs) (begins_run s S g cs) (refusal s S)
serve m s S step' = serve_step m s S s.run
serve m s S (result k) = serve_result s S k s.run
serve m s S close = asked (close_questions s) (ends_run s S) (refusal s S)
