-- Frames of one host and number.
use Rattle.std.proofs.Common.{◌-◌, sym, ap, ◌∙◌}
use Rattle.std.proofs.lemmas.Option.{same_Some}
use Rattle.batch_forwarder.specs.Frames.{frame_text}
use Rattle.batch_forwarder.specs.Laws.{HaveOneText, StayFrames}
use Rattle.batch_forwarder.proofs.Places.{get_stays}

pub have_one_text : HaveOneText
have_one_text host batches number one other first second =
    first.text ∙ ap (frame_text host) (same_Some first.batch second.batch (sym first.at ∙ second.at)) ∙ sym second.text

pub stay_frames : StayFrames
stay_frames host batches later number frame is = record {
  first = is.first;
  batch = is.batch;
  at = get_stays batches later (number - 1) is.batch is.at;
  text = is.text;
}
