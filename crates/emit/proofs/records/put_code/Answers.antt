use borrow.Author.Rules.{rules}
use Rattle.emit.proofs.CodeWhole.{code_whole}
use Rattle.emit.proofs.records.put_code.Goals as goal

pub returns : goal.returns
returns c = λ l f lies e room.
    let none = c.new-code.ensures.none in
    let w = code_whole (rw (none.0, none.1) at c.list.ensures.writes.means) c.alone.ensures.puts l f lies e room in
    search (rules, w)
