use Rattle.toml.specs.View.{table_view}
use Rattle.bm_kindjob.proofs.reading.read_kind.Goals as goal

pub returns-clause-map : goal.returns-clause-map
returns-clause-map c = λ shape fault is. record {
  said = c.in_ok-said.said;
  says = record { document = table_view c.in_ok-document.document; read = c.in_ok-document.ensures.ok; fields = c.in_ok-said.ensures.ok };
  map_faulty = c.file_of.ensures.map shape fault is;
}
