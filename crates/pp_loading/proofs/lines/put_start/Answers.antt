use Rattle.pp_loading.proofs.LineEffects.{loads-begin}
use Rattle.pp_loading.proofs.lines.put_start.Goals as goal

pub returns : goal.returns
returns c = λ list loads.
    loads-begin c.args.text.now.items c.put_address.new.text.items c.args.pp c.in-Some.address c.args.start list
    c.in-Some.is loads c.requires.pp c.requires.start c.in_ok-put_address.ensures
