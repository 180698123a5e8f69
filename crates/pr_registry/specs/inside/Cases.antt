-- The cases of PREEMPT as the code names them.
use Rattle.pr_registry.specs.declared.preempt.Case.{Case as Named}
use Rattle.pr_registry.specs.declared.preempt.Case.TheVariants.{ReplacesAll as ReplaceAll, ReplacesHolder as ReplaceHolder, RemovesKey as RemoveKey}
use Rattle.pr_registry.specs.Changes.{Case, ReplacesAll, ReplacesHolder, RemovesKey}

-- the case that is meant
abbrev pub case_of : Named → Case
case_of ReplaceAll = ReplacesAll
case_of (ReplaceHolder t) = ReplacesHolder t
case_of RemoveKey = RemovesKey
