use Rattle.std.proofs.Common.{◌∙◌, sym, ap, arith, length, take, append-nil, append_assoc, length-append}
use Rattle.text.specs.Decimal.{fields}
use Rattle.text.proofs.OutputLaws.{no_fields, fields_more, fields_room}
use Rattle.text.proofs.output.put_line.Goals as goal

pub loop-word-init : goal.loop-word-init
loop-word-init g c = rw no_fields (sym (append-nil c.push.new.self.items))

pub push-requires-in-loop-word : goal.push-requires-in-loop-word
push-requires-in-loop-word g c =
    let l = c.loop-word in
    let words = c.args.words.now in
    let put = ap length l.invariant ∙ length-append c.push.new.self.items (fields (take l.word-index words)) in
    (omega arith, omega (arith, c.requires, c.push.ensures.len, put, fields_room words l.word-index (omega arith)))

pub put_number-requires : goal.put_number-requires
put_number-requires g c =
    let l = c.loop-word in
    let words = c.args.words.now in
    let put = ap length l.invariant ∙ length-append c.push.new.self.items (fields (take l.word-index words)) in
    omega (arith, c.requires, c.push.ensures.len, c.push-in-loop-word.ensures.len, put, fields_room words l.word-index (omega arith))

pub loop-word-preserved : goal.loop-word-preserved
loop-word-preserved g c =
    let l = c.loop-word in
    let words = c.args.words.now in
    c.put_number.ensures ∙ rw (c.push-in-loop-word.ensures.items, l.invariant, fields_more words l.word-index (omega arith)) (simp append_assoc)
