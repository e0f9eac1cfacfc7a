use Rattle.draw_cli.proofs.workload_page.page_of_workload.Goals as goal

pub returns : goal.returns
returns c = record {
  page = c.in_ok-model.model;
  words = c.in_ok-model.ensures;
  is_document = c.in_ok-bytes.ensures;
}
