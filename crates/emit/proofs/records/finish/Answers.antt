use mathlib.Core.Path.{refl}
use Rattle.emit.proofs.LastAsked.{refused_13, refused_14, written_whole}
use Rattle.emit.proofs.records.finish.Goals as goal

pub returns-then-size-gt-LONGEST : goal.returns-then-size-gt-LONGEST
returns-then-size-gt-LONGEST c =
    let v = c.count_variables-variables.ensures in
    refused_13 _ _ _ _ v.means (rw v.core at c.list_ahead-size.ensures.means) _ _ _ c.if-size-gt-LONGEST.true

pub returns-then-image-total : goal.returns-then-image-total
returns-then-image-total c =
    let v = c.count_variables-variables.ensures in
    refused_14 _ _ _ _ v.means (rw v.core at c.list_ahead-size.ensures.means) _ _ _ c.if-size-gt-LONGEST.false c.if-image-total.true

pub returns : goal.returns
returns c =
    let v = c.count_variables-variables.ensures in
    written_whole _ _ _ _ v.means (rw v.core at c.list_ahead-size.ensures.means) _ _ _ _ _ _ c.if-size-gt-LONGEST.false refl c.if-image-total.false refl (rw v.core at c.put_image.ensures)
