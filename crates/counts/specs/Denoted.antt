-- The samples that the atoms of the algebra of counts denote.
use Rattle.remora.specs.Algebras.{Sample, sample_of}
use Rattle.counts.specs.declared.Value.{Value}
use Rattle.counts.specs.declared.Value.TheVariants.{Count, Flag}
use Rattle.counts.specs.Tables.{flag}

-- A count is its own code, of base type 0; a flag has base type 1.
abbrev pub sampled : Value → Sample
sampled (Count n) = sample_of 0 n
sampled (Flag b) = sample_of 1 (flag b)
