-- The words by which calls are named.
use Rattle.std.specs.Prelude.{ℕ, List, codes}
use Rattle.sessions.specs.declared.answers.Call.{Call}
use Rattle.sessions.specs.declared.answers.Call.TheVariants.{Open, Line, Enter, Scrap, Withdraw, Entry}

-- The word by which a script names a call.
abbrev pub word_of : Call → List ℕ
word_of Open = codes "open"
word_of Line = codes "line"
word_of Enter = codes "enter"
word_of Scrap = codes "scrap"
word_of Withdraw = codes "withdraw"
word_of Entry = codes "entry"
