-- `poll::send_values` meets its contract.
use mathlib.Core.Path.{sym}
use Rattle.poll.proofs.Sending.{too_many, no_register, of_reply, sent, not_sent}
use borrow.Author.Rules.{rules}
use Rattle.poll.proofs.send_values.Goals as goal

pub returns-then-n-gt84 : goal.returns-then-n-gt84
returns-then-n-gt84 c =
    let args = c.args in
    let if1 = c.if-n-gt84 in
    of_reply args.out.now _ _ (sym (too_many args.g if1.true)) c.send_code.ensures

pub returns-then-n-eq0 : goal.returns-then-n-eq0
returns-then-n-eq0 c =
    let args = c.args in
    let if1 = c.if-n-gt84 in
    let if2 = c.if-n-eq0 in
    of_reply args.out.now _ _ (sym (no_register args.g if1.false if2.true)) c.send_code-then-n-eq0.ensures

pub returns-then-out-length : goal.returns-then-out-length
returns-then-out-length c =
    let args = c.args in
    not_sent args.g args.out.now args.out.now c.if-n-gt84.false c.if-n-eq0.false (search rules) c.if-out-length.true

pub returns : goal.returns
returns c =
    let args = c.args in
    let if1 = c.if-n-gt84 in
    let if2 = c.if-n-eq0 in
    let if3 = c.if-out-length in
    sent args.g args.out.now _ if1.false if2.false (search rules) if3.false c.put_values.ensures
