use Rattle.serde_json.specs.View.{view}
use Rattle.osq_config.specs.Files.{fault_beside, file_pack}
use Rattle.osq_config.proofs.Answered.{answered}
use Rattle.osq_config.proofs.file.read_file.Goals as goal

pub returns : goal.returns
returns c = record {
  answer = answered (fault_beside c.args.count) file_pack c.args.document.now (view c.in_ok-json.json) c.read_pack.result c.in_ok-json.ensures c.read_pack.ensures.answer;
  count = c.read_pack.ensures.count;
}
