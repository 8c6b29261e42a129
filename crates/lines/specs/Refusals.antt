-- The number of each refusal, and the line that it names.
use Rattle.std.specs.Prelude.{ℕ, List, Some, None, codes, Option}
use Rattle.remora.specs.Calls.{Answer, refused}
use Rattle.remora.specs.Histories.{by_answer}
use Rattle.lines.specs.declared.refusals.Refusal.{Refusal}
use Rattle.lines.specs.declared.refusals.Refusal.TheVariants.{TooManyDrafts, BadParameters, WrongSlip, NoSpace, BadField, NotEnterable, BadFunction, BadContents, WrongBase, NotItsCell, FramesDisagree, NoUnit, ShapeNotAllowed, BeyondLimits, NotInUse, RunOpen, CodesDoNotFit, StoreTooShort, NoRunAtWork, NotDone, BufferTooShort, NoRun, NotGiven}

-- A refusal as the theory answers it: its number, and the line that it names.
abbrev pub answer_of : Refusal → Answer
answer_of TooManyDrafts = refused 1 None
answer_of BadParameters = refused 2 None
answer_of WrongSlip = refused 3 None
answer_of NoSpace = refused 4 None
answer_of BadField = refused 5 None
answer_of NotEnterable = refused 6 None
answer_of (BadFunction l) = refused 7 (Some l)
answer_of (BadContents l) = refused 8 (Some l)
answer_of (WrongBase l) = refused 9 (Some l)
answer_of (NotItsCell l) = refused 10 (Some l)
answer_of (FramesDisagree l) = refused 11 (Some l)
answer_of (NoUnit l) = refused 12 (Some l)
answer_of (ShapeNotAllowed l) = refused 13 (Some l)
answer_of BeyondLimits = refused 14 None
answer_of NotInUse = refused 15 None
answer_of RunOpen = refused 16 None
answer_of CodesDoNotFit = refused 17 None
answer_of StoreTooShort = refused 18 None
answer_of NoRunAtWork = refused 19 None
answer_of NotDone = refused 20 None
answer_of BufferTooShort = refused 21 None
answer_of NoRun = refused 22 None
answer_of NotGiven = refused 23 None

-- The number of a refusal.
abbrev pub number_of : Refusal → ℕ
number_of x = by_answer (answer_of x) (λ n l. n) (λ k. k) 0 0

-- The line that a refusal names.
abbrev pub named_line : Refusal → Option ℕ
named_line x = by_answer (answer_of x) (λ n l. l) (λ k. None) None None

-- The reason of a refusal in words.
abbrev pub reason_of : Refusal → List ℕ
reason_of TooManyDrafts = codes "a million drafts were opened already"
reason_of BadParameters = codes "more than four parameters, or one of an unknown base type or a shape that is not allowed"
reason_of WrongSlip = codes "the slip is not that of the open draft"
reason_of NoSpace = codes "no space for the line"
reason_of BadField = codes "a field of the line is out of range, or should be empty"
reason_of NotEnterable = codes "the draft has no lines, or there are 64 formulas already"
reason_of (BadFunction l) = codes "an operand, the function or the number of operands is wrong"
reason_of (BadContents l) = codes "the codes, the frame or the cell is wrong"
reason_of (WrongBase l) = codes "an operand has the wrong base type"
reason_of (NotItsCell l) = codes "an operand does not end in its cell"
reason_of (FramesDisagree l) = codes "the frames of the operands do not agree"
reason_of (NoUnit l) = codes "a fold over no items has no unit"
reason_of (ShapeNotAllowed l) = codes "the shape of the line is not allowed"
reason_of BeyondLimits = codes "steps, room or depth is beyond the limits"
reason_of NotInUse = codes "the number is not entered, or is withdrawn"
reason_of RunOpen = codes "a run is open"
reason_of CodesDoNotFit = codes "the codes do not fit the parameters"
reason_of StoreTooShort = codes "the store is too short"
reason_of NoRunAtWork = codes "there is no run at work"
reason_of NotDone = codes "there is no run that is done"
reason_of BufferTooShort = codes "the buffer is too short"
reason_of NoRun = codes "there is no run"
reason_of NotGiven = codes "the number was not given"
