use Rattle.toml.specs.View.{table_view}
use Rattle.bm_jobfile.proofs.reading.read_job.Goals as goal

pub returns-clause-map : goal.returns-clause-map
returns-clause-map c = λ shape fault is. record {
  said = c.in_ok-job.job;
  says = record { document = table_view c.in_ok-document.document; read = c.in_ok-document.ensures.ok; fields = c.in_ok-job.ensures.ok };
  map_faulty = c.file_of.ensures.map shape fault is;
}
