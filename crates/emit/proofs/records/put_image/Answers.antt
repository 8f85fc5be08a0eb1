use Rattle.emit.proofs.RecordPuts.{image-written}
use Rattle.emit.proofs.records.put_image.Goals as goal

pub returns : goal.returns
returns c =
    image-written _ _ _ _ c.requires.2 c.put_head.ensures.1 c.put_variables.ensures c.put_head-2.ensures.1 c.put_code.ensures c.put_head-3.ensures.1
    c.put_figures.ensures.1
