use Rattle.std.proofs.Common.{◌≡◌, ℕ, ◌+◌, ◌-◌, ◌≤◌, List, length, get_or, take, drop, arith, add-zero, get_or-drop, le-leb, length-drop, ap, sym, ◌∙◌}
use Rattle.std.proofs.Math.Seq.{take-length}
use Rattle.cells.specs.Reading.{cell_in}
use Rattle.cells.specs.declared.cell.Cell.{Cell}
use Rattle.cells.proofs.reader.Reader.ahead.Goals as goal

-- the first three of the numbers that are left are the cell
first_three : (m s : List ℕ) (i : ℕ) → s ≡ take (length m - i) (drop i m) → i + 3 ≤ length m
    → ◌≡◌ {A = Cell} (record { tag = get_or s 0 0; place = get_or s 1 0; datum = get_or s 2 0 }) (cell_in m i)
unfolding cell_in
first_three m s i e h =
    let whole = ap (λ n. take n (drop i m)) (sym (length-drop i m)) ∙ take-length (drop i m) in
    rw (e ∙ whole, le-leb (i + 3) (length m) h, get_or-drop i m 0 0, get_or-drop i m 1 0, get_or-drop i m 2 0, add-zero i)

pub returns-in-Some-len3-up : goal.returns-in-Some-len3-up
returns-in-Some-len3-up c =
    let h = c.in-Some-len3-up.ensures.lookup.0 in
    let room : c.args.self.now.at + 3 ≤ length c.args.self.now.memory.now = omega (arith, h.3, c.in-Some-len3-up.len_at_least) in
    (room, first_three _ _ _ h.2 room)
