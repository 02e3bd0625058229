use Rattle.serde_json.specs.View.{view}
use Rattle.osq_config.specs.Counts.{fault_of_config}
use Rattle.osq_config.specs.Values.{config_of}
use Rattle.osq_config.proofs.Answered.{answered}
use Rattle.osq_config.proofs.Bounded.{answer_bounded}
use Rattle.osq_config.proofs.Names.{answer_rises}
use Rattle.osq_config.proofs.read.read_config.Goals as goal

pub returns : goal.returns
returns c =
    let answer = answered fault_of_config config_of c.args.document.now (view c.in_ok-json.json) c.config.result c.in_ok-json.ensures c.config.ensures in
    record {
      answer = answer;
      bounded = answer_bounded c.args.document.now c.config.result answer;
      named = answer_rises c.args.document.now c.config.result answer;
    }
