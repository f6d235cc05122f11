use Rattle.text_laws.proofs.Lines.{lines-told, own-told}
use Rattle.text_laws.proofs.laws.a_text_of_json_tells_its_lines.Goals as goal

pub returns-clause-lines : goal.returns-clause-lines
returns-clause-lines c = lines-told c.elements_are_read_one_way.ensures

pub returns-clause-own : goal.returns-clause-own
returns-clause-own c = own-told c.elements_are_read_one_way.ensures
