use Rattle.graph_reader.proofs.Sounding.{faultless}
use Rattle.graph_reader.proofs.reading.open.Goals as goal

pub cut-requires : goal.cut-requires
cut-requires c = (faultless c.args.file.now c.requires).container
