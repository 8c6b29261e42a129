-- Worked examples on counts, as one table: calls on a new collection with their answers, and what evaluation gives.
use Rattle.std.specs.Prelude.{◌≡◌, ℕ, zero, suc, false, List, [], ◌∷◌, ◌++◌, map, replicate, Some, None}
use Rattle.remora.specs.Shapes.{Shape}
use Rattle.remora.specs.Algebras.{Sample, sample_of}
use Rattle.remora.specs.Formulas.{ArrayType, shaped, Line, Formula}
use Rattle.remora.specs.Evaluation.{Outcome, yields, faults}
use Rattle.remora.specs.Numbers.{outcome}
use Rattle.remora.specs.Calls.{State, empty, Call, open', line, enter, entry, begin, step', result, Answer, refused, number, states, goes_on, is_done, fault, wrote, serve}
use Rattle.remora.specs.Histories.{Event, event, reading}
use Rattle.counts.specs.Tables.{counts}

-- ---- what a specimen is

-- A specimen: the atoms of the store, the calls and their answers, the evaluations and their outcomes.
pub record Specimen : Type 0 where
  pub atoms : ℕ
  pub calls : List Call
  pub answers : List Answer
  pub evaluations : List (ℕ × List ℕ)
  pub outcomes : List (Outcome ℕ)

-- The calls with the answers that the definitions give, from this state and store on.
abbrev pub played_from : State → List Sample → List Call → List Event
played_from s S [] = []
played_from s S (c ∷ cs) = event c (serve counts s S c).answer ∷ played_from (serve counts s S c).state (serve counts s S c).store cs

-- The calls of a specimen with their answers.
abbrev pub played : Specimen → List Event
played x = played_from empty (replicate x.atoms (sample_of 0 7)) x.calls

-- The answers in events.
abbrev pub answers_in : List Event → List Answer
answers_in [] = []
answers_in (event c a ∷ h) = a ∷ answers_in h

-- The outcomes of formulas on codes.
abbrev pub outcomes_of : List Formula → List (ℕ × List ℕ) → List (Outcome ℕ)
outcomes_of fs [] = []
outcomes_of fs (x ∷ xs) = outcome counts fs x.0 x.1 ∷ outcomes_of fs xs

-- What the definitions give for a specimen: the answers, and the outcomes of the formulas as they were entered.
abbrev pub given : Specimen → List Answer × List (Outcome ℕ)
given x = (answers_in (played x), outcomes_of (reading (played x)).formulas x.evaluations)

-- What a specimen says.
abbrev pub said : Specimen → List Answer × List (Outcome ℕ)
said x = (x.answers, x.outcomes)

-- ---- lines and answers that recur

-- A count type.
abbrev count : Shape → ArrayType
count s = shaped 0 s

-- A literal line.
abbrev literal : Shape → List ℕ → Line
literal s cs = record { kind = 0; base = 0; shape = s; function = 0; operands = []; codes = cs }

-- A line that is the first parameter.
abbrev parameter : Line
parameter = record { kind = 1; base = 0; shape = []; function = 0; operands = []; codes = [] }

-- A line of an operator on lines 0 and 1.
abbrev operator : ℕ → Line
operator o = record { kind = 3; base = 0; shape = []; function = o; operands = 0 ∷ 1 ∷ []; codes = [] }

-- A line that calls a formula on line 0.
abbrev call : ℕ → Line
call g = record { kind = 4; base = 0; shape = []; function = g; operands = 0 ∷ []; codes = [] }

-- A fold of line 0 by an operator.
abbrev fold : ℕ → Shape → Line
fold o s = record { kind = 5; base = 0; shape = s; function = o; operands = 0 ∷ []; codes = [] }

-- An append of lines 0 and 1.
abbrev append : Shape → Line
append s = record { kind = 6; base = 0; shape = s; function = 0; operands = 0 ∷ 1 ∷ []; codes = [] }

-- The calls that show a slip the lines of a draft and then enter it.
abbrev drafted : ℕ → List Line → List Call
drafted k [] = enter k ∷ []
drafted k (l ∷ ls) = line k l ∷ drafted k ls

-- A draft of these parameters and lines, entered.
abbrev formula : ℕ → List ArrayType → List Line → List Call
formula k ps ls = open' ps ∷ drafted k ls

-- The numbers of n lines from i on, and then what enter answers.
abbrev numbered : ℕ → ℕ → Answer → List Answer
numbered i zero a = a ∷ []
numbered i (suc n) a = number i ∷ numbered (suc i) n a

-- The answers to a draft with slip k and n lines.
abbrev accepted : ℕ → ℕ → Answer → List Answer
accepted k n a = number k ∷ numbered 0 n a

-- A run of a formula over all its steps, with its result.
abbrev run : ℕ → List ℕ → ℕ → List Call
run g cs steps = begin g cs ∷ replicate steps step' ++ result 16 ∷ []

-- The answers to a run that yields codes after this many steps, one more than before.
abbrev yielded : ℕ → List ℕ → List Answer
yielded before ys = number (suc before) ∷ replicate before goes_on ++ is_done ∷ wrote ys ∷ []

-- ---- the specimens

-- mul of (3) 1 2 3 and () 10 is (3) 10 20 30: each cell of the longer frame meets the one scalar.
abbrev scaled : Specimen
scaled = record {
  atoms = 7;
  calls = formula 0 [] (literal (3 ∷ []) (1 ∷ 2 ∷ 3 ∷ []) ∷ literal [] (10 ∷ []) ∷ operator 2 ∷ []) ++ run 0 [] 4;
  answers = accepted 0 3 (number 0) ++ yielded 3 (10 ∷ 20 ∷ 30 ∷ []);
  evaluations = (0, []) ∷ [];
  outcomes = yields (10 ∷ 20 ∷ 30 ∷ []) ∷ [];
}

-- add of (3) 10 20 30 and (3,2) 1 to 6: each cell of the shorter frame is repeated in place.
abbrev widened : Specimen
widened = record {
  atoms = 15;
  calls = formula 0 [] (literal (3 ∷ []) (10 ∷ 20 ∷ 30 ∷ []) ∷ literal (3 ∷ 2 ∷ []) (1 ∷ 2 ∷ 3 ∷ 4 ∷ 5 ∷ 6 ∷ []) ∷ operator 0 ∷ []) ++ run 0 [] 4;
  answers = accepted 0 3 (number 0) ++ yielded 3 (11 ∷ 12 ∷ 23 ∷ 24 ∷ 35 ∷ 36 ∷ []);
  evaluations = (0, []) ∷ [];
  outcomes = yields (11 ∷ 12 ∷ 23 ∷ 24 ∷ 35 ∷ 36 ∷ []) ∷ [];
}

-- add of (3) and (2,3) is refused by 11: leading axes are matched, and not trailing ones.
abbrev disagreeing : Specimen
disagreeing = record {
  atoms = 0;
  calls = formula 0 [] (literal (3 ∷ []) (1 ∷ 2 ∷ 3 ∷ []) ∷ literal (2 ∷ 3 ∷ []) (1 ∷ 2 ∷ 3 ∷ 4 ∷ 5 ∷ 6 ∷ []) ∷ operator 0 ∷ []);
  answers = accepted 0 3 (refused 11 (Some 2));
  evaluations = [];
  outcomes = [];
}

-- The sum of a trace of three, and its call on two such traces.
abbrev sums : List Call
sums = formula 0 (count (3 ∷ []) ∷ []) (parameter ∷ fold 0 (3 ∷ []) ∷ []) ++ formula 1 (count (2 ∷ 3 ∷ []) ∷ []) (parameter ∷ call 0 ∷ [])

-- The answers to these.
abbrev summed : List Answer
summed = accepted 0 2 (number 0) ++ accepted 1 2 (number 1)

-- The forecasts of both, and a run on a store of 9.
abbrev lifted : Specimen
lifted = record {
  atoms = 9;
  calls = sums ++ entry 0 ∷ entry 1 ∷ run 1 (8 ∷ 9 ∷ 6 ∷ 1 ∷ 2 ∷ 3 ∷ []) 11;
  answers = summed
      ++ states (record { parameters = count (3 ∷ []) ∷ []; result = count []; steps = 3; room = 1; depth = 1 }) false
      ∷ states (record { parameters = count (2 ∷ 3 ∷ []) ∷ []; result = count (2 ∷ []); steps = 11; room = 3; depth = 2 }) false
      ∷ yielded 10 (23 ∷ 6 ∷ []);
  evaluations = (0, 8 ∷ 9 ∷ 6 ∷ []) ∷ (1, 8 ∷ 9 ∷ 6 ∷ 1 ∷ 2 ∷ 3 ∷ []) ∷ [];
  outcomes = yields (23 ∷ []) ∷ yields (23 ∷ 6 ∷ []) ∷ [];
}

-- One atom fewer in the store, and begin refuses by 18.
abbrev cramped : Specimen
cramped = record {
  atoms = 8;
  calls = sums ++ begin 1 (8 ∷ 9 ∷ 6 ∷ 1 ∷ 2 ∷ 3 ∷ []) ∷ [];
  answers = summed ++ refused 18 None ∷ [];
  evaluations = [];
  outcomes = [];
}

-- The call on no traces at all: type (0), 3 steps, no room, nothing to write.
abbrev deserted : Specimen
deserted = record {
  atoms = 0;
  calls = formula 0 (count (3 ∷ []) ∷ []) (parameter ∷ fold 0 (3 ∷ []) ∷ []) ++ formula 1 (count (0 ∷ 3 ∷ []) ∷ []) (parameter ∷ call 0 ∷ []) ++ entry 1 ∷ run 1 [] 3;
  answers = summed ++ states (record { parameters = count (0 ∷ 3 ∷ []) ∷ []; result = count (0 ∷ []); steps = 3; room = 0; depth = 2 }) false ∷ yielded 2 [];
  evaluations = (1, []) ∷ [];
  outcomes = yields [] ∷ [];
}

-- A fold of sub over 10 3 2 is 5, from the left; over no items it is refused by 12, and a fold of add over none is 0.
abbrev folds : Specimen
folds = record {
  atoms = 4;
  calls = formula 0 [] (literal (3 ∷ []) (10 ∷ 3 ∷ 2 ∷ []) ∷ fold 1 (3 ∷ []) ∷ [])
      ++ formula 1 [] (literal (0 ∷ []) [] ∷ fold 1 (0 ∷ []) ∷ [])
      ++ formula 2 [] (literal (0 ∷ []) [] ∷ fold 0 (0 ∷ []) ∷ [])
      ++ run 0 [] 3;
  answers = accepted 0 2 (number 0) ++ accepted 1 2 (refused 12 (Some 1)) ++ accepted 2 2 (number 1) ++ yielded 2 (5 ∷ []);
  evaluations = (0, []) ∷ (1, []) ∷ [];
  outcomes = yields (5 ∷ []) ∷ yields (0 ∷ []) ∷ [];
}

-- A division of 6 8 9 by 2 0 3: at cell 1 it is 8 by 0, which is a fault with cause 1, so there is no result.
abbrev divided : Specimen
divided = record {
  atoms = 9;
  calls = formula 0 [] (literal (3 ∷ []) (6 ∷ 8 ∷ 9 ∷ []) ∷ literal (3 ∷ []) (2 ∷ 0 ∷ 3 ∷ []) ∷ operator 3 ∷ []) ++ run 0 [] 3;
  answers = accepted 0 3 (number 0) ++ number 4 ∷ goes_on ∷ goes_on ∷ fault 1 0 2 1 ∷ refused 20 None ∷ [];
  evaluations = (0, []) ∷ [];
  outcomes = faults (record { cause = 1; formula = 0; line = 2; cell = 1; operator = 3; operands = 8 ∷ 0 ∷ [] }) ∷ [];
}

-- An append of cell (2) of (2,2) 1 2 3 4 and of (3) 7 8 9 is (2,5): the second is repeated for each cell of the first.
abbrev appended : Specimen
appended = record {
  atoms = 17;
  calls = formula 0 [] (literal (2 ∷ 2 ∷ []) (1 ∷ 2 ∷ 3 ∷ 4 ∷ []) ∷ literal (3 ∷ []) (7 ∷ 8 ∷ 9 ∷ []) ∷ append (2 ∷ []) ∷ []) ++ entry 0 ∷ run 0 [] 4;
  answers = accepted 0 3 (number 0) ++ states (record { parameters = []; result = count (2 ∷ 5 ∷ []); steps = 4; room = 17; depth = 1 }) false
      ∷ yielded 3 (1 ∷ 2 ∷ 7 ∷ 8 ∷ 9 ∷ 3 ∷ 4 ∷ 7 ∷ 8 ∷ 9 ∷ []);
  evaluations = (0, []) ∷ [];
  outcomes = yields (1 ∷ 2 ∷ 7 ∷ 8 ∷ 9 ∷ 3 ∷ 4 ∷ 7 ∷ 8 ∷ 9 ∷ []) ∷ [];
}

-- The table.
abbrev pub specimens : List Specimen
specimens = scaled ∷ widened ∷ disagreeing ∷ lifted ∷ cramped ∷ deserted ∷ folds ∷ divided ∷ appended ∷ []

-- The definitions give what every specimen says.
abbrev pub SpecimensHold : Type 0
SpecimensHold = map given specimens ≡ map said specimens
