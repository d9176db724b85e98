use Rattle.rack.proofs.Shifting.{put_between}
use Rattle.rack.proofs.shift.put_at.Goals as goal

pub returns : goal.returns
returns g c = put_between c.args.records.now c.rotate_right.new.self c.args.i c.args.entry c.requires c.rotate_right.ensures.after
