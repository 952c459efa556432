pub mod ExpressionRules
pub mod SpanRules
pub mod StatementRules
pub mod Laws
