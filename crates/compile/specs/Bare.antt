-- What an answer of the code says, without the image's bytes.
use Rattle.std.specs.Prelude.{[], Result, Ok, Err}
use Rattle.rules.specs.Compile.{Answer, accepted, refused}
use Rattle.rules.specs.Answers.{fault_number}
use Rattle.rules.specs.declared.compiling.Compiled.{Compiled}
use Rattle.rules.specs.declared.compiling.Refusal.{Refusal}

abbrev pub bare : Result Compiled Refusal → Answer
bare (Ok c) = accepted [] c.code c.depth c.worst
bare (Err r) = refused (fault_number r.fault) r.place
