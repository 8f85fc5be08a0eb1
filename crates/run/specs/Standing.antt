-- How a run ends, and what carrying out a code reports.
use Rattle.std.specs.Prelude.{◌≡◌, ℕ}
use Rattle.rules.specs.Answers.{outcome_number, reported}
use Rattle.rules.specs.Machine.{Code, run, start}
use Rattle.rules.specs.Meaning.{Table, Stop as End, done, spent, range, divide, ill}
use Rattle.rules.specs.Run.{Report as Reported, report_of, refused_run}
use Rattle.rules.specs.declared.running.Outcome.{Outcome}
use Rattle.rules.specs.declared.running.Report.{Report}
use Rattle.machine.specs.declared.Stop.{Stop}
use Rattle.machine.specs.declared.Stop.TheVariants.{Done, Spent, Range, Divide, Broken}

-- the rules' stop
abbrev pub end_of : Stop → End
end_of Done = done
end_of Spent = spent
end_of Range = range
end_of Divide = divide
end_of Broken = ill

-- HALT is completed, an instruction that stops the run is not
abbrev pub last_count : Stop → ℕ
last_count Done = 1
last_count Spent = 0
last_count Range = 0
last_count Divide = 0
last_count Broken = 0

-- the code is carried out from its start
unfoldable pub carried_out : Code → ℕ → Table → Reported
carried_out c budget t = report_of budget (run c budget (start t))

-- no ticks, no instructions, offset 0, and the table left alone
abbrev pub Refused : Outcome → Report → Type 0
Refused o r = (t : Table) → reported r t ≡ refused_run (outcome_number o) t
